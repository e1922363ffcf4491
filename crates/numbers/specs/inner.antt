-- Notions of inner contracts, of the test that a declaration's number takes before the rest of it is read: a reader of 01 need not read
-- them.
-- Assumes nothing.
pub mod Says

-- Notions of inner contracts, of what one field adds to a count: a reader of 01 need not read them.
-- Assumes nothing.
pub mod Fields

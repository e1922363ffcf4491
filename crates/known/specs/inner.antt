-- Notions of inner contracts, of the notes which option holds: a reader of 01 need not read them.
-- Assumes nothing.
pub mod Notes

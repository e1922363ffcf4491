-- Notions of inner contracts, of the table of names that the code holds: a reader of 01 need not read them.
-- Assumes nothing.
pub mod Table

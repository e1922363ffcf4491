-- Notions of inner contracts, of what is taken of a record: a reader of 01 need not read them.
-- Assumes nothing.
pub mod Taking

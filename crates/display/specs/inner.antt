-- Notions of inner contracts, of a record that waits to be printed: a reader of 01 need not read them.
-- Assumes nothing.
pub mod Waits

-- Notions of inner contracts, of what a part of a name leads to: a reader of 01 need not read them.
-- Assumes nothing.
pub mod Reached

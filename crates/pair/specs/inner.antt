-- Notions of inner contracts, of the reader of a pair: a reader of 01 need not read them.
-- Assumes nothing.
pub mod Pair

-- Notions of inner contracts, of a payload at a place: a reader of 01 need not read them.
-- Assumes nothing.
pub mod Placed

-- Notions of inner contracts, of a verdict that was measured: a reader of 01 need not read them.
-- Assumes nothing.
pub mod Judging

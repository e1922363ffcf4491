-- Notions of inner contracts, of writers that a public call runs: a reader of 01 need not read them.
-- Assumes nothing.
pub mod Puts

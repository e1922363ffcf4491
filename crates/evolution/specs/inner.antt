-- Notions of inner contracts, of what is amiss with a declaration as code has it: a reader of 01 need not read them.
-- Assumes nothing.
pub mod Bearers

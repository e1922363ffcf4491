-- Notions of inner functions' contracts: a reader of 01 need not read them.
-- Assumes nothing.
pub mod Small

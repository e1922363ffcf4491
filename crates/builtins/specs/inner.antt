-- Notions of inner contracts: a reader of 01 need not read them.
-- Assumes nothing.
pub mod Inside

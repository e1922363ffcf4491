-- Notions of inner contracts, of inputs, of rows as words and of what is counted: a reader of 01 need not read them.
-- Assumes nothing.
pub mod Worded
pub mod Admitted

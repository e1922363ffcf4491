-- Notions of inner contracts, of what each writer of constants writes: a reader of 01 need not read them.
-- Assumes nothing.
pub mod Writers

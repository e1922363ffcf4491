-- Notions of inner contracts, of what is answered of a verdict: a reader of 01 need not read them.
-- Assumes nothing.
pub mod Answering

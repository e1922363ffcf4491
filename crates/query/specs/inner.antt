-- Notions of inner contracts, of rows that are followed: a reader of 01 need not read them.
-- Assumes nothing.
pub mod Answering

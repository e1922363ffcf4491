-- Notions of inner contracts, of what the step on the last part answers: a reader of 01 need not read them.
-- Assumes nothing.
pub mod Answering

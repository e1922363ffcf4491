-- Notions of inner contracts, of what stands where a field is due: a reader of 01 need not read them.
-- Assumes nothing.
pub mod Due

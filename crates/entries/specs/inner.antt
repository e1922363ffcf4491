-- Notions of inner contracts, of the record at a place: a reader of 01 need not read them.
-- Assumes nothing.
pub mod Fronts

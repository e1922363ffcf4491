-- Notions of inner contracts, of what a writer of records answers and leaves: a reader of 01 need not read them.
-- Assumes nothing.
pub mod Emits
pub mod Enclosed

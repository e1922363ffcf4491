-- Notions of inner contracts, of the i-th of a list of declarations and of its full name in lent room: a reader of 01 need not read them.
-- Assumes nothing.
pub mod Nth

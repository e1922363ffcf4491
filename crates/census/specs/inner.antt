-- Notions of inner contracts, of how many declarations bear a full name, and how many numbers of its message are like one: a reader of 01
-- need not read them.
-- Assumes nothing.
pub mod Census

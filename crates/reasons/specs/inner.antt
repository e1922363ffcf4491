-- Notions of inner contracts, of the members of a message or an enum, and of reasons one after the other: a reader of 01 need not read them.
-- Assumes nothing.
pub mod Members

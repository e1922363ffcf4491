-- Notions of inner contracts, of keys in lent memory and of rows that are followed: a reader of 01 need not read them.
-- Assumes nothing.
pub mod Keys
pub mod Following

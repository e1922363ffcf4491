-- Notions of inner contracts, of a declaration that is like another one: a reader of 01 need not read them.
-- Assumes nothing.
pub mod Likes

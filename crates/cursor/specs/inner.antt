-- Notions of inner contracts, of a walk through the scopes at a path: a reader of 01 need not read them.
-- Assumes nothing.
pub mod Cursor

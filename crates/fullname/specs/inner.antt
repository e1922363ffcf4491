-- Notions of inner contracts, of what is still to come of the scopes at a path: a reader of 01 need not read them.
-- Assumes nothing.
pub mod Ahead

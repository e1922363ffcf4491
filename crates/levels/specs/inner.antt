-- Notions of inner contracts, of the stack of open levels and of what is still to be read: a reader of 01 need not read them.
-- Assumes nothing.
pub mod Stack
pub mod Left

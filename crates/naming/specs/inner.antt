-- Notions of inner contracts, of a name's parts in lent memory: a reader of 01 need not read them.
-- Assumes nothing.
pub mod Naming

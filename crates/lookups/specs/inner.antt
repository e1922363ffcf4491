-- Notions of inner contracts, of a look-up whose inputs are judged first: a reader of 01 need not read them.
-- Assumes nothing.
pub mod Admitted

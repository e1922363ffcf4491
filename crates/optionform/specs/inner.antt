-- Notions that only inner contracts need: a reader of 01 need not read them.
pub mod Parts

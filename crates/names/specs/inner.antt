-- Notions of inner contracts, of a full name that leads another: a reader of 01 need not read them.
-- Assumes nothing.
pub mod Leads

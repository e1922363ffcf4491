-- Notions of inner contracts, of what the functions of one option and of all answer and leave: a reader of 01 need not read them.
-- Assumes nothing.
pub mod Written
pub mod Settling
pub mod Gathering
pub mod Measuring

-- Notions of inner contracts, of functions that look at one field or go through the fields of a scope, and of what they answer: a
-- reader of 01 need not read them.
-- Assumes nothing.
pub mod Steps
pub mod Answers

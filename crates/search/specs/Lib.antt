pub mod Lookup
pub mod Answers

pub mod Reply
pub mod inner
pub mod Outcome
pub mod Verdicts

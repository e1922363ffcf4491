pub mod Reached
pub mod inner

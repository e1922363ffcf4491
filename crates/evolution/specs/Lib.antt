pub mod Calls
pub mod inner

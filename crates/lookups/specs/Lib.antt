pub mod Lookups
pub mod inner

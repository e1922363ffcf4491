pub mod Scope
pub mod inner

pub mod Values
pub mod inner

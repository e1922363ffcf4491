pub mod Number
pub mod inner

pub mod Find
pub mod inner

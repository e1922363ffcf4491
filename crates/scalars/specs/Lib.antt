pub mod Scalars
pub mod inner

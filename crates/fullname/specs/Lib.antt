pub mod FullName
pub mod inner

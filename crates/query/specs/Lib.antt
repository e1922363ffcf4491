pub mod Query
pub mod inner

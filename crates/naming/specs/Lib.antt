pub mod Name
pub mod inner

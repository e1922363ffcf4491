pub mod Path
pub mod inner

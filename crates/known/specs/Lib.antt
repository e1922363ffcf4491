pub mod Known
pub mod inner

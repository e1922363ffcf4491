pub mod Words
pub mod inner

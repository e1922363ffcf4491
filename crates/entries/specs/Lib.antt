pub mod Tree
pub mod Item
pub mod Reading
pub mod inner

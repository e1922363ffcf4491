pub mod Extent
pub mod Value
pub mod inner

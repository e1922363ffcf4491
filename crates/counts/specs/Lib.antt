pub mod Declarations
pub mod Options
pub mod inner

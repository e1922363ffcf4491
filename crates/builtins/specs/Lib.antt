pub mod Builtins
pub mod inner

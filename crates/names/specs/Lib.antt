pub mod Names
pub mod Numbers
pub mod Clean
pub mod Contained
pub mod inner

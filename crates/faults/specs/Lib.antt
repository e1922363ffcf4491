pub mod Faults
pub mod inner

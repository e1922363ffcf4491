pub mod Named
pub mod Settle
pub mod Options
pub mod Steps
pub mod Resolve
pub mod inner

pub mod WriteLaws
pub mod Giving

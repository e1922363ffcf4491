pub mod Tag
pub mod Fixed
pub mod Numbers

pub mod TagLaws
pub mod FixedLaws
pub mod FixedLoops
pub mod NumberLaws
pub mod TagControls
pub mod FixedControls
pub mod NumberControls

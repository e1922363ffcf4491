pub mod FindingLaws
pub mod FindLaws
pub mod Theorems

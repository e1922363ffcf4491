pub mod Variants
pub mod Rows
pub mod Names
pub mod Outcomes
pub mod VerdictLaws
pub mod Controls

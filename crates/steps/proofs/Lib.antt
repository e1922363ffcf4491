pub mod StepLaws
pub mod LedLaws
pub mod ReachLaws

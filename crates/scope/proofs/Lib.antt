pub mod Answers
pub mod LookupLaws
pub mod Held
pub mod Sample
pub mod Controls

pub mod CandidateLaws
pub mod Controls

pub mod TriedLaws
pub mod LiesLaws
pub mod CandidateOrder
pub mod FoundLaws
pub mod ScopeOrder
pub mod Theorems
pub mod Examples

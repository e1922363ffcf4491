pub mod PlacedLaws
pub mod ScopeFiles
pub mod Standing
pub mod Controls

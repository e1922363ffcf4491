pub mod WordLaws
pub mod DueLaws
pub mod Controls

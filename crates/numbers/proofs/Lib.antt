pub mod SaysLaws
pub mod NumberLaws
pub mod PlaceLaws
pub mod Controls
pub mod NameControls

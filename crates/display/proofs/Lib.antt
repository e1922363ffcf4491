pub mod PlaceLaws
pub mod WaitsLaws

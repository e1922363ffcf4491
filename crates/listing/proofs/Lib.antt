pub mod RowLaws
pub mod CountLaws
pub mod ListingLaws
pub mod Controls

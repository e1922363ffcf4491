pub mod ShapeLaws
pub mod DeclarationLaws
pub mod PlaceLaws
pub mod TreeLaws
pub mod MemberLaws
pub mod LyingLaws
pub mod Sheets
pub mod Controls

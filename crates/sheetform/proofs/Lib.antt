pub mod SheetLaws
pub mod FineLaws
pub mod Controls

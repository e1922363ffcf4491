pub mod DeclarationLaws
pub mod OptionLaws
pub mod Controls

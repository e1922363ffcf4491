pub mod BuiltinLaws
pub mod BuiltLaws
pub mod BuiltinControls

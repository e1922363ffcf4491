pub mod ScalarLaws
pub mod ConstantLaws
pub mod BodyLaws
pub mod ReadLaws
pub mod ScalarControls

pub mod PartLaws
pub mod ConstantLaws
pub mod RequestLaws
pub mod ConstantControls
pub mod RequestControls

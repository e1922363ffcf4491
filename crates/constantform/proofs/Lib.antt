pub mod LeafLaws
pub mod ConstantLaws
pub mod FineConstants
pub mod FineLaws

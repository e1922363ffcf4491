pub mod MessageLaws
pub mod FineItems
pub mod FineLaws

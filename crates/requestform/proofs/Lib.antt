pub mod RequestLaws
pub mod FineLaws
pub mod Controls

pub mod EndLaws
pub mod RangeLaws
pub mod Controls

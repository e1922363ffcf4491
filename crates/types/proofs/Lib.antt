pub mod TypeLaws
pub mod Controls

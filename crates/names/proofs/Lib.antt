pub mod LeadsLaws
pub mod StandsLaws
pub mod FewLaws
pub mod Controls

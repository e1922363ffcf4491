pub mod FullNameLaws
pub mod ValueLaws
pub mod LiesLaws
pub mod Controls

pub mod PartLaws
pub mod Either
pub mod ReadingLaws
pub mod FrontLaws
pub mod LiesLaws
pub mod RecordLaws

pub mod NameLaws
pub mod EachLaws
pub mod Controls

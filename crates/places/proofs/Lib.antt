pub mod BareLaws
pub mod PartLaws
pub mod NameLaws
pub mod FirstLaws
pub mod OwnLaws
pub mod Resolved
pub mod Queried
pub mod Elsewhere

pub mod CaseLaws
pub mod InputLaws
pub mod OutputLaws

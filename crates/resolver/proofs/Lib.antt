pub mod WriteLaws
pub mod CallLaws

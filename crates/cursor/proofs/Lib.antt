pub mod ScopesLaws
pub mod CursorLaws
pub mod StartLaws
pub mod Left

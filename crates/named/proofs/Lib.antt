pub mod NamedLaws
pub mod DeclaredPlaces

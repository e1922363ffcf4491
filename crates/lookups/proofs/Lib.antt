pub mod LookupLaws
pub mod AdmitLaws

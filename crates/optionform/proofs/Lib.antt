pub mod OptionLaws
pub mod FineLaws
pub mod PartsLaws

pub mod OptionLaws
pub mod LedPlaces
pub mod PutLaws
pub mod BuiltinPartLaws
pub mod SettleLaws

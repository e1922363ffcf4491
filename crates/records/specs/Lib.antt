pub mod Records
pub mod Made
pub mod Raw
pub mod inner

pub mod Form
pub mod Fine
pub mod inner

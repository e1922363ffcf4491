pub mod Form
pub mod Fine

pub mod Leaves
pub mod Form
pub mod Fine

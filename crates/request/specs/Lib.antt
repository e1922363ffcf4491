pub mod Table
pub mod Name
pub mod Constant
pub mod Tree
pub mod Request

pub mod Table
pub mod Declaration
pub mod Tree
pub mod Members

pub mod Field
pub mod Walk
pub mod Leaf
pub mod Part
pub mod Fields

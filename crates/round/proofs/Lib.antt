pub mod Closest
pub mod Digits
pub mod RoundBits
pub mod Integers
pub mod Narrowing
pub mod Controls

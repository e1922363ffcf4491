pub mod Levels
pub mod Back
pub mod Evolve
pub mod Demands

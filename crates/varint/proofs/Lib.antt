pub mod VarintLaws
pub mod VarintLength
pub mod VarintLoops
pub mod VarintReading
pub mod VarintControls

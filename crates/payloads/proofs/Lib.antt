pub mod VarintOwn
pub mod PayloadLaws
pub mod PayloadFacts
pub mod ValueLaws
pub mod ValueFacts
pub mod Controls

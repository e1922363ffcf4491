pub mod StackLaws
pub mod OpenLaws
pub mod FlatLaws
pub mod LeftLaws
pub mod StartLaws
pub mod NextLaws
pub mod MovesLaws

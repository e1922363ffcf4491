pub mod NthLaws
pub mod Finding
pub mod RosterLaws
pub mod Controls

pub mod NoteLaws
pub mod KnownLaws
pub mod NotedLaws
pub mod WritingLaws
pub mod KnownControls

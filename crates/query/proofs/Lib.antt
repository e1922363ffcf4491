pub mod SeenLaws
pub mod CallLaws
pub mod Controls

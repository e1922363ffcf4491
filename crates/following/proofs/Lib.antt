pub mod FollowLaws
pub mod ReachedLaws
pub mod Controls

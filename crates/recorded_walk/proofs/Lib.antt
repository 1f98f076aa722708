pub mod FollowLaws
pub mod Moving
pub mod Coming
pub mod Places
pub mod Kept
pub mod Unasked
pub mod Ending
pub mod Stretching

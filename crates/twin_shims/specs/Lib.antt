pub mod Notes
pub mod Order
pub mod Leader
pub mod LeaderLaws
pub mod Follower
pub mod FollowerLaws
pub mod Line

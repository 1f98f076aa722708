pub mod Following
pub mod Tracks
pub mod Playbacks
pub mod Laws

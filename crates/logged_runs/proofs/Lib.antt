pub mod RoundsAsk
mod Stops
mod FromWorld
pub mod FromOpening
pub mod Recordings
pub mod Replays
pub mod OneRecording
pub mod Joined

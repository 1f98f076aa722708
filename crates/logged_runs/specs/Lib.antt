pub mod Opened
pub mod Runs
pub mod Recording
pub mod Replaying
pub mod Resuming
pub mod Laws

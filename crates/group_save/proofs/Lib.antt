pub mod Recorded
pub mod Restored

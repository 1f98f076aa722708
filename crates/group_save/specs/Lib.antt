pub mod Recording
pub mod Restored

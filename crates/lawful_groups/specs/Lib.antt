pub mod Counts
pub mod Apart
pub mod Agreeing
pub mod Lawfulness
pub mod Recording

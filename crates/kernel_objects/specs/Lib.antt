pub mod Pipework
pub mod Queue

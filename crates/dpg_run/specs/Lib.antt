pub mod Report
pub mod Fits
pub mod Work
pub mod Reaching
pub mod GroupRuns
pub mod Reached
pub mod QuietRuns
pub mod Laws

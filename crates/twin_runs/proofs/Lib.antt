pub mod Asking
pub mod Leaders
pub mod Followers
pub mod Alikes
pub mod BothRuns

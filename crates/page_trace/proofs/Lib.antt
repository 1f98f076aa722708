pub mod Changes
pub mod Examples
pub mod Marked
pub mod Traced
pub mod Rounds

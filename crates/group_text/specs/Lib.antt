pub mod Groups
pub mod Ranges
pub mod GroupText
pub mod Refusals
pub mod Reading
pub mod Records

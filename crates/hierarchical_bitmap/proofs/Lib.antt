pub mod Bits
pub mod Summaries

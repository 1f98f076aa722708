mod Comparing
pub mod Verdicts

mod GroupVerdicts
pub mod Lengths

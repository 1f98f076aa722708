pub mod Lengths
pub mod Room

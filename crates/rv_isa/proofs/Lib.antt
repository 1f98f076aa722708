pub mod Single
pub mod ByOpcode
pub mod Masks
pub mod ByFields
pub mod Formats
pub mod Codes
pub mod Back
pub mod Again
pub mod ByQuadrant
pub mod Short
mod Words
mod Halves

pub mod Touching
pub mod Kept

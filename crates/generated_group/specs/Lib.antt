pub mod Generated
pub mod Stretches

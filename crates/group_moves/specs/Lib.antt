pub mod Places
pub mod Moves
pub mod Moments
pub mod Laws

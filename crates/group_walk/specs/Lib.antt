pub mod Needs
pub mod Walks
pub mod Places
pub mod Plays
pub mod Stretches
pub mod Exits

pub mod Standing
pub mod Taken
pub mod Ends
pub mod Plays
pub mod Laws

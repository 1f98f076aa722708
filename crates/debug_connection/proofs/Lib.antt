pub mod Fronts
pub mod Pieces
pub mod Spoken
pub mod Heard
pub mod Served

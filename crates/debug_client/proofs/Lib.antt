mod Walked
mod Fronts
pub mod Known
mod Tests
mod Placed
mod Images
mod Noting
pub mod Listed
mod Chosen
pub mod Laws

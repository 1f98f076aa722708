pub mod Keeping
pub mod Stopping
pub mod Speaking
pub mod Pieces
pub mod Serving

pub mod Formats
pub mod Reading
pub mod Laws

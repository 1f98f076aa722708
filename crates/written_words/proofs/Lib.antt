pub mod Indexing
pub mod Putting
pub mod Storing

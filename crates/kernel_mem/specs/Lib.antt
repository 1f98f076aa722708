pub mod MemoryWorld
pub mod Memory
pub mod Forking
pub mod Ranges

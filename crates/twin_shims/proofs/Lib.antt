pub mod Orders
pub mod Lines
pub mod Tellers
pub mod Readers

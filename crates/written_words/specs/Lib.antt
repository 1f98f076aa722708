pub mod Words
pub mod Index

pub mod Fields
pub mod Meaning
pub mod Groups
pub mod Valid
pub mod Encoding
pub mod Compressed

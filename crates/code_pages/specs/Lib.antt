pub mod Codes
pub mod Kinds
pub mod KindTable
pub mod Lines

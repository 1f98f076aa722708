pub mod Pieces
pub mod Lines
pub mod Questions
pub mod Parts
mod LineExamples
mod PrintedExamples
pub mod Statuses

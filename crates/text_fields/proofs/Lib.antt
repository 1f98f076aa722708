pub mod Numbers
pub mod FormatLaws
pub mod ListLoops

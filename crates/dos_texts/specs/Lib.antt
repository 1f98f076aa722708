pub mod Report
pub mod Lines
pub mod Printed
pub mod Migration
pub mod Saved
pub mod Exit

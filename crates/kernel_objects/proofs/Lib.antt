pub mod Pipeworks

pub mod Standing
pub mod Halting
pub mod Asking
pub mod Debugging
pub mod Quiet

pub mod Follows
pub mod Instruction
pub mod Kinds
pub mod Runs
pub mod OnePage
pub mod Arrivals

pub mod High
pub mod Whole
pub mod Atomics
pub mod Beside
pub mod ByForm
pub mod ByOp
pub mod PcBeside
pub mod Stored

pub mod Crews
pub mod Lending
pub mod Parts
pub mod Ran

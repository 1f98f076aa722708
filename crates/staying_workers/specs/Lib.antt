pub mod Busy
pub mod Lending
pub mod Ready

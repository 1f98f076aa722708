pub mod Tables
pub mod Spread
pub mod Places
pub mod Saved
pub mod Lending
pub mod Children
pub mod Links

pub mod Laws
pub mod Pages
pub mod Filling
pub mod Group

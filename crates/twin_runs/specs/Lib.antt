pub mod Twins
pub mod Laws
pub mod Alike
pub mod Both

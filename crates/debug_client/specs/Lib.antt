pub mod Births
pub mod Clients
pub mod Numbers

pub mod Keeps
pub mod OverWorld
pub mod Forms
pub mod Dependence
pub mod Stays
pub mod Commute
pub mod Threads
pub mod Own
pub mod After
mod Results

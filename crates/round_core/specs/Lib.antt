pub mod Granting
pub mod Protocol
pub mod Invariants
pub mod Laws

pub mod WordLaws
pub mod Added
pub mod FileFields
pub mod Accepted
pub mod ImageLaws
pub mod FinishLaws

pub mod Digits
pub mod Parts
pub mod ReadBackLaws
pub mod EscapeLaws
pub mod StreamLaws
pub mod PacketLaws
pub mod ResumptionLaws

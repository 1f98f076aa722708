pub mod TextLaws
pub mod FitLaws

pub mod RowLaws
pub mod GroupLaws
pub mod RegisterLoop
pub mod ReadingLaws

mod Examples
pub mod OutsideLaws
pub mod GivenLaws
pub mod GivenSteps
pub mod InputLaws
pub mod PieceLaws
pub mod QuietAnswers

pub mod Steps
pub mod RowLaws
pub mod LogLaws
pub mod LengthLaws
pub mod Texts
mod Refused
mod Lengths
pub mod EntriesTextLaws
pub mod PostTexts
pub mod TailLoop
pub mod WholeLaws
pub mod PlaceLaws
pub mod TranslationLaws
pub mod ItemLaws
mod ItemExamples
pub mod SpellingLaws
pub mod ItemReading
pub mod GrowingLaws

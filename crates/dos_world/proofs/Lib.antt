pub mod PlayLaws
mod SmallWorld
mod ServiceExamples
mod SignalExamples
mod RefusalExamples
pub mod LawfulTest
pub mod Numbers
pub mod Refusals
mod Caller
mod Unrefused
pub mod UsualCalls
mod RefusalRows
pub mod Table
mod LawfulExamples

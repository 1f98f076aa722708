mod Saying
pub mod NotBegun
mod Asked
mod Calls
mod RunFiles
mod RunEnds
mod Steady
mod RunCalls
pub mod ReplayTaking
pub mod ReplayEnds
mod TraceEnds
mod MigrationEnds
mod SaveEnds
mod SaveCalls
mod ResumeEnds
mod DebugEnds
mod GenRuns
mod Repeats
mod BareRuns
mod WorkedExample
mod Joins

pub mod ReportLaws
pub mod RoundsRun
pub mod RunKeeps
mod Limits
pub mod LawfulRuns
pub mod Asked
pub mod QuietRuns
pub mod MisfitLaws
mod SteadySinks
pub mod Worked
pub mod Joining

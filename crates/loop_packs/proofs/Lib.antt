mod CanLoop
mod Ran

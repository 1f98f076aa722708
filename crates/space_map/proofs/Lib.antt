pub mod Places
pub mod Mapped
pub mod Runs
pub mod PutRun

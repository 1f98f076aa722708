mod Absences
pub mod Behind
mod Counting
mod Finding
mod Frames
mod Lives
mod Living
mod Places
mod Reading
pub mod Rows
mod Sleeping
mod Statuses
mod Stretching
mod Whereabouts

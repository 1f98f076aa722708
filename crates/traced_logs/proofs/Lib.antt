mod Lines
mod Stops

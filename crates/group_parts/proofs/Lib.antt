pub mod Spaces
pub mod Taken
pub mod Records
pub mod Facts
pub mod FrameFacts
pub mod PipeFacts

pub mod PipeEnds
pub mod FrameLists
pub mod Reading
pub mod Restoring

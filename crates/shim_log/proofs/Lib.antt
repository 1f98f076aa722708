mod Rooms
pub mod ReplayLaws
pub mod PostLaws
pub mod LedgerLaws
pub mod RecorderLaws
pub mod AskingCalls

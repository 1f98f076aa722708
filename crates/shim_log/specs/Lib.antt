pub mod Room
pub mod Ledger
pub mod RecorderFollows
pub mod Asking
pub mod AskingLaws
pub mod Replay
pub mod ReplayerFollows

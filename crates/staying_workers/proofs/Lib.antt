pub mod AtBoard
pub mod Readying
pub mod RanPacks

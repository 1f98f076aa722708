pub mod Belows
pub mod Hired
pub mod RanPacks
pub mod SliceRuns
pub mod Growing

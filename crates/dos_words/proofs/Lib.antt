mod Requests
mod ByClap
pub mod RangeLaws
pub mod Decimals
pub mod Parts
pub mod PostLists
mod Taking
mod Shapes
mod RunParts
pub mod Walks
pub mod Levels
pub mod Tops
pub mod Splits
pub mod Options
pub mod Agreement

pub mod TwinOutside
pub mod TwinImages
pub mod TwinReports
pub mod TwinLeaves

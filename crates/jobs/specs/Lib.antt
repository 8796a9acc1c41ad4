pub mod Cells
pub mod Endings
pub mod Holders
pub mod Jobs

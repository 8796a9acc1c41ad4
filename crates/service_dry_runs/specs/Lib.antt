pub mod Endings
pub mod Plannings
pub mod Runs

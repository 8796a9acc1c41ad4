pub mod Merging
pub mod Turns

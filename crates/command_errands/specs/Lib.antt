pub mod Entries
pub mod Errands
pub mod Needs
pub mod Sources

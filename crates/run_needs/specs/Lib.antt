pub mod Entries
pub mod Jobs
pub mod Moves
pub mod Needs

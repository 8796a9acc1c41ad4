pub mod Fates
pub mod Holdings

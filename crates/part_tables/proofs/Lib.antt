pub mod Tables
pub mod Following
pub mod Freeing
pub mod Unmade
pub mod Finding

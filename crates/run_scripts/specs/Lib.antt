pub mod Returning
pub mod Tasks

pub mod Causes
pub mod Faults
pub mod Rows
pub mod Tasks
pub mod Warnings

pub mod Changes
pub mod Flags

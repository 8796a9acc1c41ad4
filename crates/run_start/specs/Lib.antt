pub mod Begun
pub mod Settings

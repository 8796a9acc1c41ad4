pub mod Codes
pub mod Endings
pub mod Pages
pub mod Parts
pub mod Refused
pub mod Assembly
pub mod Soundness

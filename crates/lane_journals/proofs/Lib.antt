pub mod Endings
pub mod Journaled
pub mod Ranges
pub mod Witness

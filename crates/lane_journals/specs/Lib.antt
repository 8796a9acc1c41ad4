pub mod Journals
pub mod Ranges
pub mod Witness

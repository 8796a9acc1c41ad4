pub mod Causes
pub mod Witness

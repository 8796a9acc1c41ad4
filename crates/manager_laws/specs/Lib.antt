pub mod Ends
pub mod Witness

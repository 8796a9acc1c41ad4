pub mod Joined
pub mod Journals
pub mod Witness

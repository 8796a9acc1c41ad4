pub mod Asks
pub mod Breaks
pub mod Givings
pub mod Journals
pub mod Outcomes
pub mod Witness

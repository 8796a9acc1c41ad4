pub mod Dispatches
pub mod Entries
pub mod Parts
pub mod Scheduled
pub mod Sent
pub mod Whole
pub mod Witness

pub mod Buffers
pub mod Gaining
pub mod Promise
pub mod Witness

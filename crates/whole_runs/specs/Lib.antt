pub mod Buffers
pub mod Carried
pub mod Ended
pub mod Given
pub mod Witness

pub mod Given
pub mod Means

pub mod Answer
pub mod Breaks
pub mod Chunks
pub mod Head
pub mod Parts

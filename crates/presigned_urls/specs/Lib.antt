pub mod Parts
pub mod Presigned

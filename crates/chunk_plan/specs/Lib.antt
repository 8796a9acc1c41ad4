pub mod Adjusted
pub mod Cover
pub mod Pool

pub mod Headers
pub mod Hmac
pub mod Pairs
pub mod Paths
pub mod Signing
pub mod Times

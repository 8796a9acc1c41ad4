pub mod Attempts
pub mod Payloads
pub mod Steps

pub mod Answered
pub mod FileCompleteness
pub mod Gets

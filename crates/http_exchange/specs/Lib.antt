pub mod Exchange
pub mod Forms
pub mod Seen
pub mod Steps

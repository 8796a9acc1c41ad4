pub mod Classifying
pub mod Documents
pub mod Showing
pub mod Steps

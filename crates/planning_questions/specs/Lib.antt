pub mod Answers
pub mod Listings
pub mod Planned
pub mod Questions
pub mod Traced

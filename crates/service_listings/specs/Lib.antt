pub mod Listings
pub mod Showings
pub mod Needs

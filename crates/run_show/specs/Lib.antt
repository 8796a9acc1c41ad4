pub mod Listings
pub mod Urls

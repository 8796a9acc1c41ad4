pub mod Endpoints
pub mod Names
pub mod Uris

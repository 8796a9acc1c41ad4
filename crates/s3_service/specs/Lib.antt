pub mod Listing
pub mod Serves
pub mod ServiceState
pub mod Willing

pub mod Buckets
pub mod Errors
pub mod Listing
pub mod Results
pub mod OneValue
pub mod ErrorCodes
pub mod Encodings

pub mod Uploads
pub mod Requests
pub mod Shares

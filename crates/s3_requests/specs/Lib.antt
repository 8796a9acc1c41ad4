pub mod Descriptions
pub mod Headers
pub mod Keeping
pub mod Requests

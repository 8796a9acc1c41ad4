pub mod Formed
pub mod Requests
pub mod Shares

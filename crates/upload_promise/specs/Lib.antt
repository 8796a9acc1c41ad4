pub mod Puts
pub mod Sources
pub mod Uploads
pub mod Shown

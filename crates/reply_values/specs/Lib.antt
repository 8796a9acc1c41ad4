pub mod Forms
pub mod Numbers
pub mod References
pub mod Spelling
pub mod Times
pub mod UrlText

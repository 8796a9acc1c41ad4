pub mod Uploading

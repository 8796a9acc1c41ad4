pub mod Conducting

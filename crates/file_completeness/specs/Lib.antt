pub mod FileCompleteness

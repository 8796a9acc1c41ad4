pub mod Filters
pub mod Patterns
pub mod Runs
pub mod Sets

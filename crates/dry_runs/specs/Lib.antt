pub mod Errands
pub mod Found
pub mod Looked
pub mod Plans
pub mod Runs
pub mod Shown

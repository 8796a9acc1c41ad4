pub mod Errands
pub mod Fit
pub mod Plans
pub mod Sides
pub mod Times

pub mod Asking
pub mod Own
pub mod Promise
pub mod Shown

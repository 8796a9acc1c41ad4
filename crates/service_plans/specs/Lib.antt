pub mod Faults
pub mod Local
pub mod Looked
pub mod Needs
pub mod Plans
pub mod Sides

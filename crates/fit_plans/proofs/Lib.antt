pub mod Apart
pub mod OfErrand
pub mod Removals

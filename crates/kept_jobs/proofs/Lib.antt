pub mod Filled
pub mod SlotLemmas
pub mod TagLemmas

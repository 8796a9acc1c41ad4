pub mod DateLemmas
pub mod ListedLemmas

pub mod EntryLemmas
pub mod LineLemmas
pub mod RunLemmas
pub mod ShownLemmas

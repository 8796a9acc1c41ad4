mod Examples
pub mod GivenLemmas
pub mod PlaceLemmas
pub mod ReaderLemmas

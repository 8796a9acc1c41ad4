pub mod FilterLemmas
pub mod MatchLemmas
pub mod ReadingLemmas
pub mod SetLemmas
pub mod TestLemmas
pub mod TextLemmas

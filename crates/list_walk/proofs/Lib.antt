pub mod ItemLemmas
pub mod LawLemmas
pub mod OrderLemmas
pub mod PageLemmas

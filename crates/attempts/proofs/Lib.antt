pub mod AttemptLemmas
pub mod ClassLemmas
pub mod SaidLemmas

pub mod FitLemmas
pub mod Places
pub mod ShareLemmas

pub mod FateLemmas
pub mod WordLemmas

pub mod OpenLemmas
pub mod JoinLemmas

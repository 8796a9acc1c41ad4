pub mod EscapeLemmas
pub mod HeaderLemmas
pub mod JoinLemmas
pub mod PathLemmas
pub mod SortLemmas

pub mod PieceLemmas
pub mod Agreement

pub mod OneLaneLemmas

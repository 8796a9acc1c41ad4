pub mod EndingLemmas
pub mod LoopLemmas
pub mod MadeLemmas

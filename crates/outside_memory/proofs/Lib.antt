mod LastTalk
pub mod MadeLemmas

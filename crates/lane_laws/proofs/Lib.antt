pub mod AttemptLaw
pub mod NoteLaw
pub mod RunLaw

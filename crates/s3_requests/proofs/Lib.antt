pub mod BodyLemmas
pub mod HeaderOrder
pub mod RequestLemmas

pub mod OutputLemmas
pub mod PrintLemmas
pub mod TextLemmas

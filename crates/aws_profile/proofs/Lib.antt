pub mod ReaderLemmas
pub mod SlotLemmas
pub mod TextLemmas
pub mod ValueLemmas

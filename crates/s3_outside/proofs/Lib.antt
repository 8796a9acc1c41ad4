pub mod SeenLemmas
pub mod TempLemmas

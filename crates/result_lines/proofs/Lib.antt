pub mod CutLemmas
pub mod PaddingLemmas

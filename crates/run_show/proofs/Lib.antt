pub mod ListingLemmas
pub mod MomentLemmas

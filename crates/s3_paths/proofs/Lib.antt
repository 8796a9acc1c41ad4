pub mod EndpointLemmas
pub mod FirstPlace
pub mod Numerals
pub mod TempNames
pub mod UriLemmas

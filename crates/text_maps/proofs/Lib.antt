pub mod TextMaps

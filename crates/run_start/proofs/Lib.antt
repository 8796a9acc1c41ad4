pub mod ExpiryLemmas
pub mod RestLemmas
pub mod SettingsLemmas

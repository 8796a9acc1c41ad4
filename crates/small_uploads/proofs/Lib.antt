pub mod JobLemmas
pub mod UploadLemmas

mod AskLemmas
mod ReadLemmas

pub mod ReadingLemmas
pub mod WritingLemmas
pub mod ActingLemmas

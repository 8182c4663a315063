pub mod FirstLemmas
pub mod FittingLemmas
pub mod ListLemmas
pub mod CauseLemmas
pub mod ReadingLemmas
pub mod AckLemmas
pub mod StrayLemmas

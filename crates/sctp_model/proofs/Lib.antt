pub mod NumberLemmas
pub mod NearLaws
pub mod TypedLemmas
pub mod TypedWriting
pub mod PacedEnds
pub mod sender
pub mod receiver

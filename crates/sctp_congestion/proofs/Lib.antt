pub mod WentLemmas
pub mod MissLemmas
pub mod ControlLemmas
pub mod PaceLemmas

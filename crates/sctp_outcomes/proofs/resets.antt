pub mod AskingEnds
pub mod AskingRuns
pub mod ReadyAsked
pub mod Counted
pub mod CountedEnds
pub mod CountedRuns

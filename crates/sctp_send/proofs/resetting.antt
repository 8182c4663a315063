pub mod CountedUp
pub mod RankLemmas
pub mod PassingLists
pub mod WaitingLemmas
pub mod StillLemmas
pub mod ResetTables
pub mod ResetKept

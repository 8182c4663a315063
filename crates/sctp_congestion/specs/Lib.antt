pub mod Numbers
pub mod Waits
pub mod Allowed
pub mod Went
pub mod PaceStands
pub mod Highest
pub mod Says
pub mod Weighs

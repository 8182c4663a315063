mod lists
pub mod plan
mod moves
pub mod sending
mod receiving
pub mod machine
pub mod runs

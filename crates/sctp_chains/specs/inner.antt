pub mod Filing
pub mod Finding
pub mod LettingGo

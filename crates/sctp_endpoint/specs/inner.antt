pub mod Acted
pub mod Arrived
pub mod Expected
pub mod SacksHeard

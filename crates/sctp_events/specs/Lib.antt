pub mod Alike
pub mod Setups
pub mod Events

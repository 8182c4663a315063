pub mod Calls
pub mod Safe
pub mod World
pub mod Events
pub mod Steps
pub mod Aged
pub mod Premises

pub mod Meanings
pub mod SameLimits

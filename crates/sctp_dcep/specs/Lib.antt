pub mod Content
pub mod Dcep
pub mod Meanings
pub mod Writing
pub mod SameCodes

pub mod Reading
pub mod Meanings
pub mod Laws
pub mod SameCodes

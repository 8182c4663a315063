pub mod Meanings
pub mod Modes
pub mod DataChannels
pub mod PlainOptions

pub mod SpacedWords
pub mod Numerals
pub mod WrittenWords
pub mod Streams
pub mod TextLines
pub mod NextLineAnswer
pub mod SkippedLines
pub mod inner

mod WrittenLines
pub mod WordLemmas
mod HexDigits
pub mod WordValues
mod Decimals
mod WritingLemmas
mod SourceLineLemmas
mod LineSplits
mod LineRuns
mod SkipLemmas

pub mod ChunkLines
pub mod PrintedText
pub mod Commas

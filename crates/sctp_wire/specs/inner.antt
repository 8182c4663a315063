pub mod Frame
pub mod Standing
pub mod FirstAsWritten
pub mod AtOnce

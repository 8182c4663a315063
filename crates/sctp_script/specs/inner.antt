pub mod PlainAnswer

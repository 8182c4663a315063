pub mod Senders
pub mod Filled
pub mod Few
pub mod Ends
pub mod Heard
pub mod Passed
pub mod Called
pub mod Built

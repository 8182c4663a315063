pub mod Giving
pub mod Rows
pub mod Forwarding
pub mod Places
pub mod Bits
pub mod Reassembly
pub mod Restarting
pub mod Requesting

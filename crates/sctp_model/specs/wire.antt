pub mod Chunk
pub mod Typed
pub mod Places
pub mod Unknown
pub mod Packet
pub mod Reconfig

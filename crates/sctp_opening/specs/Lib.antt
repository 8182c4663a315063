pub mod inner
pub mod Room
pub mod Terms
pub mod Cookies
pub mod AckFaults
pub mod Outside
pub mod Told

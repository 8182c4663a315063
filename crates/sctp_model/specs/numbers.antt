pub mod Lists
pub mod Numbers
pub mod Limits
pub mod Serial

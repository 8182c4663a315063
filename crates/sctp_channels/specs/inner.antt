pub mod SaidMeans
pub mod Telling
pub mod Sent
pub mod Settles
pub mod Spans
pub mod Upcoming
pub mod Ahead

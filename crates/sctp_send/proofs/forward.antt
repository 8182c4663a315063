pub mod LaneLemmas
pub mod LaneWalks
pub mod LaneBytes
pub mod ForwardLemmas
pub mod StillForward
pub mod ReachLemmas
pub mod KeptForward

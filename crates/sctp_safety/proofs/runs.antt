mod Grown
mod StillStreams
pub mod ResetFacts
mod ReachesLast
pub mod Dates
mod PastCum
pub mod Direction
mod Nearness
pub mod Sending
mod Passing
mod Asking
mod Renumbering
mod ResetsBuilt
mod Hearing
pub mod Pair
mod Acted
mod Packets
mod Timed
mod Answers
pub mod Unmet
mod Waiting
mod Meeting
mod Bags
pub mod DatedBags
pub mod Dating
mod Brought
pub mod MetWorld
mod MetSteps
pub mod ApartWorld
mod ApartSteps
pub mod Safety
pub mod Courses
pub mod Directions
mod Arrived
mod Drained
mod Homes
mod Ending
mod EndingActs
mod EndingBuilds
mod EndingTimes
pub mod Pairs
pub mod Unlimited
pub mod UnlimitedRuns
pub mod parted

pub mod Kept
pub mod Blocks
pub mod Lending
pub mod Pairs
pub mod TwoWays
pub mod Pages

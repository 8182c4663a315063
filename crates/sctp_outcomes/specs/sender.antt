pub mod Sacks
pub mod SackLaws
pub mod Wishes
pub mod WishLaws
pub mod Cuts
pub mod Refusals

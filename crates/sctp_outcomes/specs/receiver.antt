pub mod Wholes
pub mod Steps
pub mod Runs
pub mod StepLaws

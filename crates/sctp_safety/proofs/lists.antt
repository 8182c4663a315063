pub mod Basics
pub mod Numbers

pub mod Asked
pub mod Fitting

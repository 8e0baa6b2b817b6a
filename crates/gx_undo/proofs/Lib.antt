mod Constants
pub mod Fit
pub mod Forks

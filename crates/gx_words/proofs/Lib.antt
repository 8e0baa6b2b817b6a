mod Constants
pub mod Sums

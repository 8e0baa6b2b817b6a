mod Constants
pub mod Stem

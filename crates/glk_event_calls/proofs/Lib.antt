mod Constants
pub mod Lines
pub mod Opened

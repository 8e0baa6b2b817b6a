pub mod Constants
pub mod Turns
pub mod Words
pub mod Pieces
pub mod Kept
pub mod Lists
pub mod Locals
pub mod Opened

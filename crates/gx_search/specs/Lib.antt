pub mod Constants
pub mod Keys
pub mod Searches
pub mod Halving
pub mod Finding

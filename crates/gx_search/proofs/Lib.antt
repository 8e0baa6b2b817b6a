mod Constants
pub mod Comparing
pub mod Within
pub mod Finding
pub mod Halvings

pub mod Constants
pub mod Numbers
pub mod TextNumbers
pub mod Parts
pub mod Strings
pub mod Turns

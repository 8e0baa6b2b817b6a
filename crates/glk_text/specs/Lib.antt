pub mod Constants
pub mod Characters
pub mod Utf8

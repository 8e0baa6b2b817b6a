pub mod Constants
pub mod Answers
pub mod Gestalts
pub mod Streams
pub mod Windows
pub mod References

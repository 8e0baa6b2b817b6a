mod Constants
pub mod Puts
pub mod Cases
pub mod Reading
pub mod Gets
pub mod Saving
pub mod Rests

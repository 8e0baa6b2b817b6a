pub mod Constants
pub mod Requests

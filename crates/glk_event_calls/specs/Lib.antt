pub mod Constants
pub mod Events

pub mod Names
pub mod Instructions
pub mod Texts
pub mod Codes
pub mod Stories
pub mod Faults
pub mod Views

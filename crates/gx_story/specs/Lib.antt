pub mod Blorbs
pub mod Constants
pub mod Faults
pub mod Stories
pub mod Views

pub mod Acts
pub mod Cuts
pub mod Relations
pub mod Opened

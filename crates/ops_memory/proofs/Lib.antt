pub mod Spaces
pub mod Charges
pub mod Opened

pub mod Instructions
pub mod Plans
pub mod Stores
pub mod Arguments
pub mod Code

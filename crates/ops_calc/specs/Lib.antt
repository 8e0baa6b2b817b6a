pub mod Arithmetic
pub mod Branches
pub mod Generator
pub mod Acts
pub mod Laws

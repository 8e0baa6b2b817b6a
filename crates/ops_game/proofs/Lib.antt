pub mod Generators
pub mod Copies
pub mod Pairs
pub mod Asks
pub mod Opened

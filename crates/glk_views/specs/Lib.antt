pub mod Parts
pub mod Laws
pub mod Beside
pub mod Calls

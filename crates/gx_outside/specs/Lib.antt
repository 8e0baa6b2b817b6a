pub mod Files
pub mod Outside
pub mod Reads
pub mod Sends
pub mod Chains
pub mod Shelves
pub mod Fakes

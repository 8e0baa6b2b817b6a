pub mod Faults
pub mod Chunks
pub mod Writing
pub mod Laws

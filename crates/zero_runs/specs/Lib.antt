pub mod Faults
pub mod Packing
pub mod Unpacking
pub mod Laws

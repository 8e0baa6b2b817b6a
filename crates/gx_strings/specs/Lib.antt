pub mod Constants
pub mod Bits
pub mod Objects
pub mod Nodes
pub mod Items
pub mod Held

pub mod Backs
pub mod Bytes
pub mod Kept
pub mod Pairs
pub mod Space
pub mod FlatCopies
pub mod Opened

pub mod ByName
pub mod Pieces

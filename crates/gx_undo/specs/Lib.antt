pub mod Undo
pub mod Sound

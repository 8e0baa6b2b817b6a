pub mod Tape
pub mod Path
pub mod Views

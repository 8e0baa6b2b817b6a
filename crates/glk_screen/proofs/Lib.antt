mod Constants
mod Worked
pub mod Paragraphs
pub mod Places
pub mod Prefixes
pub mod Cuts
pub mod Turns
pub mod Holding
pub mod Sizes
pub mod Flowing
pub mod WrapLaws

pub mod Turns
pub mod Words
pub mod Pages
pub mod Stories

pub mod Constants
pub mod Putting
pub mod Output
pub mod Input
pub mod Characters
pub mod PuttingSaves

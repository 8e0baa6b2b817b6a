mod Constants
pub mod Contents
pub mod Sounds
pub mod Lists
pub mod Sizes
pub mod Filling
pub mod ReadingBack

mod Constants
pub mod Fitting
pub mod Lists
pub mod Tiling
pub mod Placing
pub mod Leaving
pub mod Room

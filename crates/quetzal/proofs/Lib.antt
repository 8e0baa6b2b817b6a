pub mod Constants
pub mod Listing
pub mod Sorting
pub mod SaveReading
pub mod SaveWriting
pub mod ReadingBack
pub mod OldSaves

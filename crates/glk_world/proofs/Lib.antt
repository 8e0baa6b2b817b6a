mod Constants
pub mod Turns
pub mod Kept
pub mod Closing
pub mod Requests
pub mod Texts
pub mod Ranks
pub mod Links
pub mod Names
pub mod Echoes
pub mod Alone
pub mod Each
pub mod Unseen

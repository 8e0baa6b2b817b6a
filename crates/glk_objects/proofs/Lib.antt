pub mod Above
pub mod Found
pub mod Meeting
pub mod Places
pub mod Rising

mod Constants
pub mod Absent
pub mod Closing
pub mod Loading
pub mod Opened
pub mod Pairs

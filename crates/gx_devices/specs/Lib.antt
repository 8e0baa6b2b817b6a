pub mod Devices
pub mod Last

mod Constants
pub mod Laying
pub mod Ram
pub mod Counting
pub mod Opened

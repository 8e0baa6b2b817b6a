pub mod Constants
pub mod Numbers
pub mod Results
pub mod Faults

pub mod Constants
pub mod Entries
pub mod HeaderTests
pub mod Forms

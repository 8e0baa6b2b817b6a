pub mod FlowRows
pub mod Writes
pub mod Catches

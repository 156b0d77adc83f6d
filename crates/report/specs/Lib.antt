pub mod Report
pub mod Faults

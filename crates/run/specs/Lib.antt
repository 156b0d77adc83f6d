pub mod Runs
pub mod Faults

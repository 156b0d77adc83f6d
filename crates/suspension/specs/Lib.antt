pub mod Checks
pub mod Faults
pub mod Rest
pub mod Sound

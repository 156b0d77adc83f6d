pub mod Text
pub mod Writing
pub mod Faults
pub mod Parts

pub mod Reads
pub mod Moving
pub mod Faults

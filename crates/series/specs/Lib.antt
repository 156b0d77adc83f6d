pub mod Moved
pub mod Positions
pub mod Checks
pub mod Faults
pub mod Made
pub mod Sound

pub mod Joined
pub mod Faults
pub mod Places
pub mod Sound

pub mod Closes
pub mod Rounds

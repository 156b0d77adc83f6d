pub mod Telling
pub mod Checks
pub mod Rising

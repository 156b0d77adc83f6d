pub mod Rising
pub mod Skipping

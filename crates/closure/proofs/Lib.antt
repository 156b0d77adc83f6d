pub mod Applying
pub mod Adding
pub mod Counting
pub mod Closing

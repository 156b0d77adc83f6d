pub mod Asks
pub mod Hearing
pub mod Views

pub mod Sound
pub mod Written
pub mod Found

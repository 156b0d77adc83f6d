pub mod Layout
pub mod Checks
pub mod Faults
pub mod Views
pub mod Written

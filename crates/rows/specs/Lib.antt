pub mod Rows
pub mod Tables
pub mod Written
pub mod Faults

pub mod Cases
pub mod Written
pub mod Lists
pub mod Faults

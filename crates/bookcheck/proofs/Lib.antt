pub mod Walk
pub mod Any
pub mod Passed
pub mod ReadBack
pub mod Accepted
pub mod WriteBack
pub mod Law

pub mod Marks
pub mod More
pub mod ReadBack
pub mod WriteBack
pub mod Law

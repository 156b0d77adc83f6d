pub mod Counts
pub mod First
pub mod LowestMark
pub mod Numbers

pub mod Sets
pub mod Numbers
pub mod Words
pub mod Attributes
pub mod Members
pub mod Numbered

pub mod First
pub mod Passed
pub mod Refused
pub mod Rising

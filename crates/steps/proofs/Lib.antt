pub mod Found
pub mod Places
pub mod Handing
pub mod Listing
pub mod Search
pub mod Comparing

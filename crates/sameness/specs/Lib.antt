pub mod Likes
pub mod Told

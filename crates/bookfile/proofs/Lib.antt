pub mod Asked
pub mod Made

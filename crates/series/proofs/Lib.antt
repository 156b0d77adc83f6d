pub mod Moving
pub mod Asked
pub mod Made

pub mod Standing
pub mod Fronts

pub mod Weights
pub mod Near

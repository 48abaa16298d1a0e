pub mod Reached
pub mod Sweeps

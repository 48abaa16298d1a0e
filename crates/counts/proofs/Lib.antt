pub mod Roots
pub mod Bounds
pub mod Defaults

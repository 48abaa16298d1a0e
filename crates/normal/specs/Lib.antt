pub mod Design
pub mod Equations
pub mod Augmented

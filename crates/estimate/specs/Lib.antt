pub mod Inner
pub mod Inverse
pub mod Estimate
pub mod NormalEquations

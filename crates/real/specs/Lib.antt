pub mod Fold
pub mod Reals
pub mod Fractions
pub mod Finite
pub mod Arithmetic
pub mod Matrix

pub mod Fits
pub mod Literal
pub mod Swept
pub mod Bounds

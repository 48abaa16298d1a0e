pub mod Lines
pub mod Lengths
pub mod Digits
pub mod Parts
pub mod Rows

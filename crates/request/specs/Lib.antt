pub mod Options
pub mod Lengths
pub mod Answer

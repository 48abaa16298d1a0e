pub mod Lengths
pub mod Refusals

pub mod Blind
pub mod Sums

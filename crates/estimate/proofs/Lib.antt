pub mod Products
pub mod Lengths
pub mod NormalEquations
pub mod Meanings
pub mod Blind
pub mod Lent

pub mod Products
pub mod WeightSum
pub mod Ones
pub mod Fills

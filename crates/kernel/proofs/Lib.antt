pub mod WeightRange
pub mod DistanceRange
pub mod Published
pub mod Reaches

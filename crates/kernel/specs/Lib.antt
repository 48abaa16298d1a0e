pub mod Published
pub mod Weight
pub mod Reach
pub mod Place
pub mod Numbers

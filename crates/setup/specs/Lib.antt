pub mod Bandwidth
pub mod Options
pub mod Data
pub mod Shape
pub mod Problem

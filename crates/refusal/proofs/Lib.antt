pub mod Range
pub mod Distinct

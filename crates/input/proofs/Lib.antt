pub mod Meanings
pub mod Accepted
pub mod Observations

pub mod Planned
pub mod Ranges

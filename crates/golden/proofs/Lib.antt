pub mod Round
pub mod Points
pub mod Kiefer

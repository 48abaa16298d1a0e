pub mod Golden
pub mod Points
pub mod Kiefer

pub mod Sounds
pub mod Keeping

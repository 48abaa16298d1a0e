pub mod Above
pub mod Usable

pub mod Headers
pub mod Cuts

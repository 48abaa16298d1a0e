pub mod Sweep
pub mod Finish

pub mod Runs
pub mod Turning

pub mod Insert
pub mod Walk
pub mod Bandwidth
pub mod Smallest

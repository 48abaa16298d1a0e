pub mod Buffers
pub mod Walks
pub mod Inserts
pub mod Tallies
pub mod Amounts
pub mod Greatest
pub mod Smallest

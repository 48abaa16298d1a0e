pub mod Solved
pub mod Served
pub mod Turning
pub mod Deciding
pub mod Called
pub mod Printing
pub mod Meaning

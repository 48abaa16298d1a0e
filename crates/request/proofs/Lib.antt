pub mod Lengths
pub mod Options
pub mod Answers

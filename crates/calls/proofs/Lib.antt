pub mod Bytes
pub mod Answers
pub mod Judged
pub mod Counts
pub mod Served
pub mod Meanings

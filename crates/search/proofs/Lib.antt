pub mod Solves
pub mod Memos
pub mod Searches
pub mod Literal

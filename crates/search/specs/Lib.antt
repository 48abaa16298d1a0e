pub mod Trial
pub mod Memo
pub mod Search
pub mod Literal

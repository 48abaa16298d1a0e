pub mod Published
pub mod Falls
pub mod Guard

pub mod Published
pub mod Aicc

pub mod Placed
pub mod Numbers
pub mod Little
pub mod Floats
pub mod Decoding
pub mod Encoding

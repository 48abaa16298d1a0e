pub mod Pivoting
pub mod Rows

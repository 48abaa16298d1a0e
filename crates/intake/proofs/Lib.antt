pub mod Consumed

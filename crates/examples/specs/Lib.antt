pub mod Examples
pub mod Played
pub mod ExactFits
pub mod DefaultCounts
pub mod Guarded
pub mod Trusted

pub mod Step
pub mod Sound

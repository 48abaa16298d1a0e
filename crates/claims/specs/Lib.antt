pub mod Words
pub mod Meanings
pub mod Whole
pub mod Written
pub mod Turns
pub mod DemandOne
pub mod DemandTwo
pub mod DemandThree

-- Demand 3, from one sweep to a whole list of turns.
pub mod Leading
pub mod Sweeping
pub mod Searching
pub mod Fitting
pub mod Best
pub mod Rising
pub mod Writing
pub mod Playing

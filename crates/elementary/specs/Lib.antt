pub mod Exp
pub mod Ln
pub mod LnSteps

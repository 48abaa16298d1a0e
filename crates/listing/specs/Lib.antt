pub mod Jobs
pub mod Numbers
pub mod Printed

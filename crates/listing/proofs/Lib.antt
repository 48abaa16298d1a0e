pub mod Texts
pub mod Fronts
pub mod Numbers
pub mod Judged
pub mod Reading

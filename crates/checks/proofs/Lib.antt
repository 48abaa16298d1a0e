pub mod Judge
pub mod Means
pub mod Tests

pub mod Judge
pub mod Requires
pub mod State

pub mod Counts
pub mod State

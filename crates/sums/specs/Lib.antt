pub mod Sums
pub mod State
pub mod Requires

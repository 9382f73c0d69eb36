pub mod Reach
pub mod Requires
pub mod State

pub mod State
pub mod Requires

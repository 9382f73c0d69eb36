pub mod Level
pub mod State
pub mod Requires

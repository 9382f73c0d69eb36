pub mod Block
pub mod State
pub mod Requires

pub mod Climb
pub mod State
pub mod Requires

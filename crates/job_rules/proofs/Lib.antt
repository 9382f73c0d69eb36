pub mod Commands
pub mod Stepping
pub mod Seen

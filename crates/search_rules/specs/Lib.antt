pub mod Best
pub mod Search
pub mod State
pub mod Requires

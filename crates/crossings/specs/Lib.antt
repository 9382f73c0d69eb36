pub mod Crossing
pub mod Calls
pub mod Smallest

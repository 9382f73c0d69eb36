pub mod Probes
pub mod Smallest
pub mod State
pub mod Requires

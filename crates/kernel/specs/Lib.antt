pub mod Kernel
pub mod Requires
pub mod State

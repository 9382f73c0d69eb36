pub mod Bound
pub mod Requires
pub mod State
pub mod Fair

pub mod Added
pub mod Workers

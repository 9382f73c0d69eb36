pub mod Output
pub mod State
pub mod Lines

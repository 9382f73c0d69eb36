pub mod World
pub mod State

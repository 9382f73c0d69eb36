pub mod Command
pub mod State

pub mod Apply
pub mod State
pub mod Job

pub mod Numbers
pub mod Grid
pub mod Map
pub mod Answer
pub mod Refusal
pub mod Questions
pub mod Requires

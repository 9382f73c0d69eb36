pub mod Written
pub mod Running
pub mod Shapes
pub mod Any

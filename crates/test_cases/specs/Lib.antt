pub mod Board
pub mod Calls

pub mod Numbers
pub mod Halves
pub mod Operands
pub mod Seen

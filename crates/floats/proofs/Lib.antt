-- The laws of binary64: its order, and what keeps it.
pub mod Order
pub mod Round
pub mod Total
pub mod Whole
pub mod Literals
pub mod Add
pub mod Div
pub mod Own
pub mod Number
pub mod Pick
pub mod Largest
pub mod Capped
pub mod Finite
pub mod Absolute
pub mod Next
pub mod Patterns
pub mod Facts

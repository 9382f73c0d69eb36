-- The order of candidates.
pub mod Order

-- The loop over the levels.
pub mod Descents

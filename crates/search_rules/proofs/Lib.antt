-- The laws of the search, for every map, radius and spacing.
pub mod Levels
pub mod Search
pub mod Places
pub mod Lengths

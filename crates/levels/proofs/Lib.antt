-- The laws of a level, for every map, radius and order of blocks.
pub mod Rule
pub mod Counts
pub mod Finds
pub mod OneBlock

-- The marked facts about the ring of four cells, computed from the definitions, and what a computation opens.
pub mod Ring
pub mod Searches
pub mod Radii
pub mod Facts
pub mod Job

pub mod Ring
pub mod Searches
pub mod Radii
pub mod Facts
pub mod Job

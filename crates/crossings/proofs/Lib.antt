pub mod Crossings
pub mod SmallestCrossings

-- The laws of a circle's rows, and of the walks from the centre row outward.
pub mod Reaches
pub mod Edges
pub mod Walks

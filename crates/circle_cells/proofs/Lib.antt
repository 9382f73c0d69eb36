-- The laws of circles as sets of cells, and of their people.
pub mod General
pub mod Angle
pub mod Circles
pub mod Populations

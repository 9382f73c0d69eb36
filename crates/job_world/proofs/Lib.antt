pub mod Whole
pub mod Fronts
pub mod Maps

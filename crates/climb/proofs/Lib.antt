pub mod Radii
pub mod Climb
pub mod NextRadii

pub mod Products
pub mod Cosines

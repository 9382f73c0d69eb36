pub mod Columns
pub mod Laws
pub mod Bands

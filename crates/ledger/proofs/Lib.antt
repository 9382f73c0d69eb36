pub mod Entries
pub mod Laws
pub mod Order
pub mod Places
pub mod Whole
pub mod Putting

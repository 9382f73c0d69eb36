pub mod Decimals
pub mod Lengths
pub mod Texts
pub mod Whole

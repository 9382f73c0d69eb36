-- The laws of writing children and tiles as words.
pub mod Halved
pub mod TileWords

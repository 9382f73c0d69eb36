-- The laws of blocks and of the buffers that hold them.
pub mod Ranges
pub mod Shapes
pub mod Tiles
pub mod Words
pub mod Cuts

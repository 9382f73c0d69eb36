-- The loop over a chunk's blocks and the one over a level's chunks, as they go on.
pub mod Serving
pub mod Spans
pub mod Sweeps
pub mod Chunks

-- The laws of wide circles, of bounds and of fair sheets.
pub mod Bounds
pub mod Wide
pub mod WideFacts
pub mod Shaped
pub mod FairTest

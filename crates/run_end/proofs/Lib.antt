-- What the end of a run gives.
pub mod Ends

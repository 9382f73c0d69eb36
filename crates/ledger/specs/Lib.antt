pub mod Ledger
pub mod State
pub mod Requires

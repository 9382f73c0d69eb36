pub mod States
pub mod Kept
pub mod AnySheet
pub mod Probes
pub mod Traces
pub mod Centres

pub mod Requires

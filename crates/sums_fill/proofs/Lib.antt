pub mod Filling
pub mod Tables

-- The laws of the judge, fed angle by angle and run by run.
pub mod General
pub mod Judging
pub mod Runs

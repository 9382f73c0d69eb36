pub mod General
pub mod Places

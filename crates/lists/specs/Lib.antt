pub mod Counted
pub mod Lists
pub mod Front
pub mod Elements

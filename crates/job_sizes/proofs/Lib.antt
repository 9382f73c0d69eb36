pub mod Held
pub mod Found
pub mod Sheets

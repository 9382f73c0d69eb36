-- The laws of the crate's definitions, for every size and every type of element.
pub mod Bools
pub mod Sums
pub mod All
pub mod Folds
pub mod Fronts
pub mod Writes
pub mod Elements
pub mod Sorts
pub mod Insertion
pub mod Groups
pub mod Joins
pub mod Counts
pub mod Taken

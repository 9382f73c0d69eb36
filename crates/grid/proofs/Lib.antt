-- The laws of the grid, its questions and its sheet.
pub mod Answers
pub mod Body
pub mod CellOrder
pub mod Distance
pub mod Found
pub mod General
pub mod Index
pub mod Radii
pub mod RadiusCalls
pub mod SheetOrder
pub mod Sizes

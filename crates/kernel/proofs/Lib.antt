pub mod Populations
pub mod RowRuns
pub mod Kernels
pub mod Built
pub mod Cells
pub mod WholeGrid
pub mod Placing

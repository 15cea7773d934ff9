pub mod Sharing
pub mod Fitting
pub mod DrawnCells
pub mod RowCells

pub mod CellOrder
pub mod Steps
pub mod Places
pub mod Pieces
pub mod Coverings

pub mod Behind
pub mod Drained
pub mod Held
pub mod Pieces
pub mod Told
pub mod Written

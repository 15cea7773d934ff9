pub mod Issued
pub mod PoolPieces
pub mod Overwriting
pub mod Loops

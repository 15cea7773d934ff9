pub mod Items
pub mod Pieces
pub mod Lends
pub mod PoolLends

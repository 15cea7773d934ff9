pub mod Blocks
pub mod Writing
pub mod Order
pub mod Grid
pub mod Told
pub mod Reaching

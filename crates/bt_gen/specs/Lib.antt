pub mod Orders
pub mod Edges
pub mod Butterfly
pub mod Chain
pub mod Loops
pub mod Wishes
pub mod inner

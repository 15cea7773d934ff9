pub mod Grids
pub mod Asked
pub mod Spanned
pub mod SmallestText
pub mod inner

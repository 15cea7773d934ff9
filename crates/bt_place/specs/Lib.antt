pub mod Numbering
pub mod Blocks
pub mod Within
pub mod PlaceFormula
pub mod Narrowed
pub mod Laws
pub mod Solutions
pub mod inner

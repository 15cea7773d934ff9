-- What the contracts of private functions cite.
pub mod Inverses
pub mod KeptRows
pub mod ProductParts
pub mod Wholes
pub mod Words

-- What the private functions alone cite: no public clause rests on these.
pub mod Behind
pub mod Drawings
pub mod Dropping
pub mod Moved
pub mod ToldParts

-- What the contracts of private functions cite.
pub mod Items
pub mod Lines
pub mod PinWords
pub mod Tallies
pub mod Preferred

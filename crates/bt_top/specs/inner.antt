-- What private functions tell of their results: definitions that no public clause cites.
pub mod Asking
pub mod Claims
pub mod Fronts
pub mod Gathering
pub mod Grids
pub mod PairParts
pub mod RequestParts
pub mod Telling

-- What the contracts of private functions cite.
pub mod Bases
pub mod Checking
pub mod Lemmas
pub mod Runs
pub mod Settling
pub mod Sums
pub mod UnfitPoints

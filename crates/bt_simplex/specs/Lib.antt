pub mod Causes
pub mod Checks
pub mod Counting
pub mod Laws
pub mod Runs
pub mod Pivots
pub mod Weights
pub mod inner

-- How choosers keep what they remember, and how the order is walked, which no public clause cites.
pub mod FirstUnset
pub mod Orders
pub mod Tallies

pub mod Activities
pub mod Orders
pub mod Picks
pub mod Remembering
pub mod Tallies
pub mod inner

-- Definitions that private functions alone cite.
pub mod Bases
pub mod Choosing
pub mod Goals
pub mod Rounds
pub mod Scopes

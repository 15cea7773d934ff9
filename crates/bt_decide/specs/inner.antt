-- Definitions that private functions alone cite.
pub mod Outcomes
pub mod Wished

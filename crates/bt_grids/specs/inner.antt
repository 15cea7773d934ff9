-- Definitions that private functions alone cite.
pub mod Ranks
pub mod Skipping
pub mod Spans

-- Definitions that private functions alone cite.
pub mod Gathering
pub mod Totals

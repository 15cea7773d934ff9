-- Definitions that private functions alone cite.
pub mod Finding

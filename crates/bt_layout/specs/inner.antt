-- Definitions that private functions alone cite.
pub mod Bare
pub mod Ends
pub mod Passing
pub mod Progressing
pub mod Likely

-- What private functions alone cite.
pub mod Merging
pub mod Adding
pub mod Within
pub mod Variables

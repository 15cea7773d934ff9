-- What private functions alone cite.
pub mod Joining
pub mod Comparing
pub mod Parts

-- What the private functions alone cite: no public clause rests on these.
pub mod Edges
pub mod Ends
pub mod Found
pub mod Marks
pub mod Refused
pub mod Speeds
pub mod Staying
pub mod Told
pub mod Index
pub mod Partners

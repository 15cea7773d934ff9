pub mod Ascending
pub mod Listing
pub mod Scores
pub mod Sifting

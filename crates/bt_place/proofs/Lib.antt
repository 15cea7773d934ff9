pub mod Counting
pub mod Inverse
pub mod Ranking
pub mod Ordering
pub mod Sizing
pub mod Numbered
pub mod Written
pub mod Encoded
pub mod Meeting
mod Unlaid
pub mod Laying
pub mod Cells
pub mod Solving
pub mod Marking
pub mod Gathering
pub mod Longer

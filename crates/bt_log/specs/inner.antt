-- How a log keeps its steps, which no public clause cites.
pub mod Keeping
pub mod Needed
pub mod Marking

-- What the private functions alone cite: no public clause rests on these.
pub mod Finding
pub mod Fitting
pub mod Handed
pub mod Joins
pub mod Marks
pub mod Naming
pub mod Rows
pub mod Tests

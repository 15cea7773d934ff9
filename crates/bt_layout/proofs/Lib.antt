mod Ascending
pub mod Few
pub mod LeftOut
pub mod Formulas
pub mod Refuted
pub mod Written
pub mod Sizes
pub mod Certified
pub mod Answering
pub mod Passed
pub mod Passing
mod Taken
mod Through
mod Told
mod Sweeps
mod Smaller
pub mod Narrow
mod Ending
mod Bare
mod Laid

-- What the contracts of private functions cite.
pub mod Forms
pub mod Shares
pub mod ShortSteps
pub mod Steps

-- What the contracts of private functions cite.
pub mod Compared
pub mod AtPorts
pub mod Lines
pub mod Trials
pub mod Printing
pub mod Shares
pub mod Listed

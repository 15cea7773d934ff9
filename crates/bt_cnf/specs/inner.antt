-- What the contracts of private functions cite.
pub mod RowPlaces
pub mod Codes
pub mod Unset
pub mod Lbools

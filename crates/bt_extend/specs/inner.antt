-- What the contracts of private functions cite.
pub mod Adding
pub mod Printed
pub mod Taking
pub mod Terms
pub mod Told

-- What the contracts of private functions cite.
pub mod Atoms
pub mod Blocks
pub mod Details

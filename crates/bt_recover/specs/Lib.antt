pub mod Recovered
pub mod Preferred
pub mod Sides
pub mod Placing
pub mod Pairing
pub mod inner

pub mod Simulations
pub mod inner

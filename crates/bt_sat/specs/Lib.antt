pub mod Answering
pub mod Freshness
pub mod Laws
pub mod Serving
pub mod Solving
pub mod inner

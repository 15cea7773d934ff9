pub mod Verdicts
pub mod Building
pub mod Certified
pub mod inner

pub mod Certificates
pub mod Judging
pub mod Laws
pub mod Readings
pub mod StepLines
pub mod inner

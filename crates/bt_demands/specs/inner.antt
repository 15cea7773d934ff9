pub mod Near
pub mod Tables
pub mod Parts

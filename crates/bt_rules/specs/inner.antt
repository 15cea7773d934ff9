pub mod Parts
pub mod PortParts

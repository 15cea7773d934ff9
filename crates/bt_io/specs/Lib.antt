pub mod Blocks
pub mod Bytes
pub mod Causes
pub mod InMemory
pub mod Passages
pub mod Streams

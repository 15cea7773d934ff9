pub mod Rules
pub mod Counters
pub mod Spots
pub mod Facts
pub mod Near
pub mod Drafts
pub mod inner

pub mod Changes
pub mod Lines
pub mod Shorts
pub mod Substituting
pub mod TermSigns
pub mod Unfits
pub mod inner

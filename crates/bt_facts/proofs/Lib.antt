pub mod Decided
pub mod Keeping
pub mod Geometry
pub mod Numbered
pub mod DraftLemmas
pub mod Drawn

-- What the contracts of private functions cite.
pub mod Carrying
pub mod Rests
pub mod ShortPoints
pub mod Starts
pub mod SumCache
pub mod PivotedSlots
pub mod UnfitPivots

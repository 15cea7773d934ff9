pub mod FirstLines
pub mod Pieces
pub mod Longer
pub mod Lacking
pub mod WholeLines
pub mod OneAnswer

pub mod Blanks
pub mod Lines
pub mod Pieces
pub mod Whole
pub mod Answers
